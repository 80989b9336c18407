-- The effects of calls on devices.
pub mod Device
pub mod Adapters
pub mod Buffered
pub mod Trial
