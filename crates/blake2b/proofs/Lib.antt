pub mod Laws
mod Lengths
mod Order
mod Rotation
mod Runs
mod Starting
mod Vector
mod StateBytes
