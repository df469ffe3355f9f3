mod Commands
mod Small
