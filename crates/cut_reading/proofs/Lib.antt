pub mod RebuildLaws
