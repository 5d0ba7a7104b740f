pub mod Drawing
pub mod SmallCells
pub mod Returning
pub mod Keeping
mod FedAlike
pub mod PacketSteps
pub mod CellSteps
pub mod PieceSteps
pub mod SymbolSteps
