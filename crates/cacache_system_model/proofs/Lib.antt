mod Leading
mod Steps
pub mod Views
mod Claims
mod Trying
mod Fresh
mod Refusing
mod Fixing
pub mod Mirroring
mod Keeping
pub mod Covered
pub mod Chaining
pub mod Alike
pub mod Touching
pub mod Changed
pub mod Lasting
mod Logging
pub mod Saying
mod Meetings
mod StageCalls
mod Arriving
mod StepCalls
mod CallGroups
mod PutCalls
