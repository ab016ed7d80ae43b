pub mod StmtTexts
