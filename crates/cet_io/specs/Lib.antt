pub mod Stream
pub mod SureSource
pub mod StdSource
pub mod MemSource
pub mod MemSink
