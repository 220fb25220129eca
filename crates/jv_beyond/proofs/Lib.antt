pub mod InOrder
pub mod InUse
pub mod SomeBeyond
pub mod Used
