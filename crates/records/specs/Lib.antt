pub mod Record
pub mod Words
