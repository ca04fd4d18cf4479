pub mod RetainedLine
