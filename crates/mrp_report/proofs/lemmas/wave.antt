pub mod ChunkTexts
pub mod PlacesWritten
