pub mod WritesJoin
pub mod DeviceHoldsBytes
