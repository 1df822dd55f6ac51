pub mod Emptied
pub mod Removed
pub mod RemovedKeys
pub mod Sheds
