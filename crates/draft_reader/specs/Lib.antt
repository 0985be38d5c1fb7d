pub mod DraftReader
