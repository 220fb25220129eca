pub mod Calling
pub mod Going
pub mod Naming
pub mod Taking
pub mod Unsafe
pub mod UnsafeLocals
pub mod UnsafeMembers
pub mod UnsafeRule
