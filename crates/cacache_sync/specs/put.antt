pub mod OpenLinkers
pub mod KeyedWriters
