pub mod AlongLaws
mod HeadLaws
