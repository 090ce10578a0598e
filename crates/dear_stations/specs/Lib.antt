-- The stations.
pub mod DearestStations
