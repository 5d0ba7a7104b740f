pub mod Transmission
pub mod SuperFrames
pub mod Agenda
pub mod Laws
pub mod AgendaLaws
