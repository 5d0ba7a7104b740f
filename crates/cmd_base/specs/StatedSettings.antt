-- The settings that the bytes of a file state, if any.
pub use Rattle.mode_set.specs.StatedSettings.{settings_of}
