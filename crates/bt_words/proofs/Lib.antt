mod Bounds
mod ClapAccount
mod ClapEnd
mod ClapGets
mod ClapRows
mod ClapRun
mod ClapSteps
mod ClapTwo
mod ClapVerify
pub mod Numbers
mod Orders
mod WordLoops
