-- The stations computed, which `claims` cites.
pub mod DearestStations
