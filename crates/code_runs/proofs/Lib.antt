mod Counting
mod Few
mod Means
mod Seen
pub mod ProgramCodes
mod SameRuns
mod SamePrograms
mod Coming
mod Carried
mod SameSerial
mod ScriptAsks
mod Agreeing
