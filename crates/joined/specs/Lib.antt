pub mod Machine
pub mod Calls
pub mod Joined
pub mod Shown
pub mod List
pub mod Binary32
pub mod Claim
