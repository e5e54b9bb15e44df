mod PuttingOff
