pub mod Front
pub mod Append
pub mod AppendFraming
pub mod AppendOrder
pub mod AppendHeader
pub mod AppendTrack
pub mod Cut
pub mod AppendRuling
