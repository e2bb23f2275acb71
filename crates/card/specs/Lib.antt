pub mod Bytes
pub mod CardRefusals
pub mod Format
pub mod Encoding
pub mod Chain
pub mod Text
pub mod Transcript
pub mod Writer
