pub mod Rounds
pub mod Worked
pub mod Forged
pub mod MarkBits
pub mod Ready
