pub mod MadeMemory
