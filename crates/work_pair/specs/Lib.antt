pub mod PairState
pub mod Moves
pub mod CallEffects
pub mod working
