pub use Rattle.common_line.specs.Line as CommonLine
pub mod Line
pub mod working
