pub mod FigureLaws
