pub mod GetterReadsFlag
pub mod RefusalIsReported
pub mod LinePartsFit
pub mod GetterReadsNumber
pub mod DefaultsGiveNumbers
