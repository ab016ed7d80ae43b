-- for crates that stand on the port and the worker
pub mod ChainLemmas
pub mod WorldLemmas
pub mod PortLemmas
-- for whatever is handed to threads and lends a script
pub mod ScriptShared
