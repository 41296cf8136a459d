-- Blocks and series that were read without a refusal, one by one: the laws of format.
pub use Rattle.format.proofs.Readings.{BlocksRead, blocks-read, no_blocks, SeriesRead, series-read, no-series, file-index}
