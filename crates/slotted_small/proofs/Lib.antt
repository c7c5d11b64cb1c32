-- How the nodes of Small are written.
pub mod SmallReadsAgain
