mod Answered
mod CameBack
