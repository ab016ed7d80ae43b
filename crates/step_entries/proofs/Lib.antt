pub mod BlankLists
pub mod Computations
pub mod OthersItems
