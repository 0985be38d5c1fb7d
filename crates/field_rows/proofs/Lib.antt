pub mod SignedBounds
