-- What holds of the definitions themselves, apart from the proofs of functions.
pub mod Tried
