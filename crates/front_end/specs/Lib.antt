pub mod PrintedLine
pub mod RefusalCodes
pub mod RefusalText
pub mod RunRefusals
pub mod ShownText
