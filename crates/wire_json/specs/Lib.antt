pub mod Json
pub mod Trees
pub mod Chains
pub mod Lined
pub mod ChainTrees
pub mod Witnesses
pub mod WitnessTrees
