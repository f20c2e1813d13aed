pub mod TreeRows
pub mod TreeTyping
pub mod TreeLists
pub mod TreeReaders
pub mod Trees
pub mod Kept
