pub mod FilesKept
