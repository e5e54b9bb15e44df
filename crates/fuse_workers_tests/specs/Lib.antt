pub mod NowOrLater
