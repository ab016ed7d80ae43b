mod ClockLemmas
mod ReplayLemmas
