-- What holds of the definitions themselves, apart from the proofs of functions.
pub mod Cases
pub mod Kinds
pub mod Parts
pub mod Marks
pub mod Outcomes
pub mod Lines
pub mod Walk
pub mod Written
pub mod Calls
pub mod SecondWalk
pub mod Links
pub mod MarksLeft
pub mod Headers
pub mod Binary32
pub mod Room
pub mod Accepted
-- of the writer: bytes of its records, one record read back, the records of a card, the whole card, what each answer says, and worked examples
pub mod Words
pub mod RoundTrip
pub mod WrittenRecords
pub mod WrittenCard
pub mod WriterAnswers
pub mod WriterExamples
pub mod Example
