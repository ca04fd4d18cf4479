pub mod HeapmarkLine
