pub mod LineLoops
pub mod Rewrites
pub mod MovedFiles
pub mod Rewritten
pub mod CompactedTrees
pub mod WholeCompactions
