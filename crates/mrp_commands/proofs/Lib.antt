pub mod PageEnds
mod TextsTaken
