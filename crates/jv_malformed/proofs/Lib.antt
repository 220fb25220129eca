mod Items
mod Walking
mod Breaking
mod Passing
mod Starting
