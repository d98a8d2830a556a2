pub mod BookedAgain
pub mod NextPeriods
pub mod Renumbered
pub mod RowsRead
pub mod RowsWritten
pub mod ScriptTexts
