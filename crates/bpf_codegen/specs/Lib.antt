pub mod Laying
pub mod Refusals
