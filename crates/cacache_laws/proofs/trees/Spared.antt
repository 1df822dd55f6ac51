pub mod StillThere
pub mod SparedCalls
pub mod SparedCommits
pub mod SparedKeys
