-- The stations.
pub mod Wires
