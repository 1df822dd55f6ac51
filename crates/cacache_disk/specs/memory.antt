pub mod StoreKept
