-- Laws on byte strings, for the layers above.
pub use Rattle.crc.proofs.Laws.Bits.{byte_at, take_bytes, drop_bytes}
