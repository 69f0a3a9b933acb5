mod Players
mod RowByRow
mod Watched
