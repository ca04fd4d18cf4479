pub mod ExactlyReachable
pub mod Marks
pub mod Options
pub mod Stops
pub mod Sums
pub mod Totals
pub mod working
