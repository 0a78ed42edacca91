pub mod Outside
pub mod Memory
pub mod Standard
pub mod Lines
pub mod LineFaults
pub mod Found
pub mod LinesState
pub mod ReadLine
